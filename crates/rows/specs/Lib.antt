-- The parts of a read of a row, and the laws that the proofs cite.
pub mod Row
pub mod RowLaws
