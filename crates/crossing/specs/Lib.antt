-- Answers as numbers and words, and the laws that the proofs cite.
pub mod Cross
pub mod CrossLaws
