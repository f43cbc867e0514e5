-- The state, the memories beside it, where things lie in them, and what a row is.
pub mod World
pub mod Layout
pub mod Where
pub mod Rows
pub mod RowLaws
