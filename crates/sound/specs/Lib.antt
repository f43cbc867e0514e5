-- Sound books: what they are, that every change keeps them so, and what it leaves of the filled bytes.
pub mod Sound
pub mod Change
pub mod OpLaws
pub mod Live
pub mod Top
pub mod SoundLaws
pub mod Freed
