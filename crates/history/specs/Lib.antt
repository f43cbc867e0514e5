-- Histories, and what every one of them keeps.
pub mod Call
pub mod Law
pub mod Corollaries
pub mod Stray
pub mod Cells
pub mod Refusals
pub mod Buffers
pub mod Pool
