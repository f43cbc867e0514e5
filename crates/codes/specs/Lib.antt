-- The state as bytes and back: definitions, and the laws that the proofs of decoding, of encoding and of their callers cite.
pub mod Code
pub mod PutLaws
pub mod TakeLaws
pub mod RoundLaws
pub mod LimitLaws
