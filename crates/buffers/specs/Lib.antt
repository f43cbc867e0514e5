-- What registering and letting go leave, and the laws that the proofs cite.
pub mod Buffers
pub mod BufferLaws
