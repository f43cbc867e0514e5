-- What finishing asks and leaves, and the laws that the proofs cite.
pub mod Finish
pub mod FinishLaws
pub mod AnswerLaws
