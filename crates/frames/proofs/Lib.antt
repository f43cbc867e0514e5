-- Theorems that no file of specs/ cites.
pub mod CleanLaws
pub mod OrderLaws
pub mod LineLaws
