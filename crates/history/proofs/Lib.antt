-- The laws that the proofs of `history` and the crates above cite.
pub mod Corollaries
pub mod Pool
pub mod Buffers
pub mod StrayLaws
pub mod Counts
pub mod Columns
pub mod History
pub mod RowReads
pub mod Spare
pub mod CallLaws
pub mod PoolChanges
