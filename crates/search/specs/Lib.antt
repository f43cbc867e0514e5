-- Searches and tests over the numbers, for every definition that says "lowest", "first" or "every".
pub mod Cases
pub mod First
pub mod FirstLaws
pub mod Every
pub mod InOrder
pub mod Table
