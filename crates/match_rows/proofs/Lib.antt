-- Theorems that no file of specs/ cites.
pub mod MatchRowLaws
