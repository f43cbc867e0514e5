-- What the formulas of the layout ask of a state, and the laws that their proofs cite.
pub mod Few
pub mod WidthLaws
pub mod ExitLaws
pub mod PlaceLaws
