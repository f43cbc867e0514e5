-- The checks of one column: what they ask, and the laws that the proofs cite.
pub mod Tested
pub mod RuleLaws
pub mod RowLaws
