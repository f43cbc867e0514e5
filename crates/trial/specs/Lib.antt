-- What a trial leaves, what holds while it goes on, and the laws that the proofs cite.
pub mod Trial
pub mod Tried
pub mod CloseLaws
pub mod PartLaws
pub mod SourcedLaws
pub mod NumberLaws
pub mod UnmarkedLaws
