-- A row of a match: what the strip makes of it, and where it stands.
pub mod MatchRow
pub mod RowWorked
pub mod Placed
pub mod ExitLaws
pub mod FourLaws
pub mod ColumnLaws
pub mod PlacedLaws
