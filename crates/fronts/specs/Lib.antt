-- What the call on the front batch answers, and the laws that the proofs cite.
pub mod Front
pub mod ThroughLaws
pub mod Placed
pub mod PlacedLaws
pub mod Fronts
pub mod FrontLaws
