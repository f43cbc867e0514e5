-- The worked examples of document 01, computed on the definitions.
pub mod Scene
pub mod Worked
pub mod Nulls
