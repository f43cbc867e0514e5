-- What queueing whole asks and leaves, and the laws that the proofs cite.
pub mod Whole
pub mod RefusalLaws
pub mod PlaceLaws
pub mod WholeLaws
pub mod QueueLaws
