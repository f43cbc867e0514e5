-- The promises of the functions, along a history.
pub mod Code
pub mod Unique
pub mod OnBytes
