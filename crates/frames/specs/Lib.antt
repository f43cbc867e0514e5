-- What a frame of the player strip shows: its text as a definition, and its laws.
pub mod Text
pub mod Frame
pub mod FrameCall
pub mod Clean
pub mod FrameWorked
pub mod Laid
pub mod ShownLaws
pub mod NumberLaws
pub mod PieceLaws
pub mod BlockLaws
pub mod ReasonLaws
pub mod CallLaws
