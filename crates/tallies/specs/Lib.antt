-- The counts of each slot.
pub mod Tally
pub mod TallyLaws
