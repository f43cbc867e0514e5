-- Room for a buffer, a block opened there, and a trial.
pub mod Room
pub mod RoomLaws
pub mod Trial
pub mod TrialLaws
pub mod Back
pub mod SameBooks
