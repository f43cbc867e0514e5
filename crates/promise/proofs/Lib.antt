-- The laws that the proofs of `promise` and the crates above cite.
pub mod CodeLaws
pub mod OnBytesLaws
pub mod RefusedLaws
