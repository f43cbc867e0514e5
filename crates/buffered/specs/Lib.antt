-- What the tests give, and the laws that the proofs cite.
pub mod RunningLaws
pub mod FinishLaws
