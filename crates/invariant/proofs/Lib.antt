-- The laws that the proofs of `invariant` and the crates above cite.
pub mod Calls
pub mod BeginLaws
pub mod Rests
pub mod CountLaws
pub mod AloneLaws
pub mod PoolLaws
pub mod SlotLaws
pub mod Steps
