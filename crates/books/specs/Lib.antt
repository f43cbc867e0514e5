-- The books: entries, what is free, what shares a byte, the lowest number and the lowest start.
pub mod Entry
pub mod EntryLaws
pub mod Search
pub mod SearchLaws
pub mod GapLaws
