-- What pushing and finishing answer, and the laws that the proofs cite.
pub mod Push
pub mod PushLaws
pub mod ExactLaws
