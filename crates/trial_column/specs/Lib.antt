-- What a column on trial asks and leaves, and the laws that the proofs cite.
pub mod Trying
pub mod TryingLaws
pub mod ShutLaws
pub mod OpenLaws
