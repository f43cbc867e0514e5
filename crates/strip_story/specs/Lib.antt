-- The player strip over histories: Story and Courts have the theorems.
pub mod StripAfter
pub mod Story
pub mod Play
pub mod Layers
pub mod SentStrip
pub mod Courts
