-- The laws that the proofs of `room` and the crates above cite.
pub mod BackLaws
