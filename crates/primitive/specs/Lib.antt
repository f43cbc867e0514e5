-- What copying rows asks, and the laws that the proofs cite.
pub mod Fits
pub mod LaidLaws
pub mod Placed
pub mod PlacedLaws
