-- The laws that the proofs of `strip_story` and the crates above cite.
pub mod Story
pub mod Courts
pub mod CourtLaws
pub mod FrontLaws
pub mod HeldLaws
pub mod LayerLaws
pub mod NamedLaws
pub mod PlayLaws
pub mod Promised
pub mod PromisedBytes
pub mod RowEventLaws
pub mod SheetLaws
pub mod StripOfRows
