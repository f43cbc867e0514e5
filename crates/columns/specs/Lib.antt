-- What is decided of a column, and the laws that the proofs cite.
pub mod Column
pub mod Pushing
pub mod ExitLaws
pub mod SourceLaws
