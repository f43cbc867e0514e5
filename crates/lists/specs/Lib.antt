-- What lists ask and leave, and the laws that the proofs cite.
pub mod List
pub mod NumberLaws
pub mod AppendLaws
pub mod CallerLaws
