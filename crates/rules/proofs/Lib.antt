-- Theorems that no file of specs/ cites.
pub mod CheckLaws
pub mod StepLaws
pub mod WayLaws
pub mod PartLaws
pub mod PushLaws
pub mod RegisterLaws
pub mod CallLaws
