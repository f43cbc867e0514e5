-- What dropping a batch leaves, and the laws that the proofs cite.
pub mod Drop
pub mod DropLaws
