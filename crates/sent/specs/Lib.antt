-- What the reads of the C layer answer on bytes that hold a world, and the laws that the proofs cite.
pub mod Reads
pub mod SentLaws
