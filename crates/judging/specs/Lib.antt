-- The tests of a push, and the laws that the proofs cite.
pub mod Judging
pub mod JudgeLaws
