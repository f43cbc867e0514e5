-- The laws that the proofs of `state` and the crates above cite.
pub mod SlotLaws
pub mod LayoutLaws
pub mod WhereLaws
