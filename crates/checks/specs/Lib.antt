-- What the checks of a batch ask, and the laws that their proofs cite.
pub mod Checked
pub mod ColumnLaws
pub mod BatchLaws
