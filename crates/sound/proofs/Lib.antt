-- The laws that the proofs of `sound` and the crates above cite.
pub mod Filled
pub mod Kept
pub mod ListKept
pub mod Lists
pub mod Others
pub mod GapFilled
