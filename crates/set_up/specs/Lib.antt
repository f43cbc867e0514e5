-- What set-up makes, and the laws that the proofs cite.
pub mod SetUp
pub mod SetUpLaws
