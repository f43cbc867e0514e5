-- The Format's views: definitions, laws of storing them, laws of what they show.
pub mod View
pub mod Raise
pub mod StoreLaws
pub mod PadLaws
pub mod ShowLaws
