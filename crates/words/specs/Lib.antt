-- The definitions of words and runs of bytes, and their laws.
pub mod Word
pub mod WordLaws
pub mod Run
pub mod RunLaws
pub mod Frame
pub mod FrameLaws
