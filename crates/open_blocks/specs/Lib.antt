-- What closing and opening a block asks and leaves, and the laws that the proofs cite.
pub mod Open
pub mod AskLaws
pub mod OpenLaws
