-- What is decided of a batch, and the laws that the proofs cite.
pub mod Sourced
pub mod SourcedLaws
pub mod Route
pub mod RouteLaws
pub mod TurnLaws
