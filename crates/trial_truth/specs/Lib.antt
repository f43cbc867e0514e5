-- A push beside its trial, and the laws that show that both lack room at the same step.
pub mod Alike
pub mod AlikeLaws
pub mod Like
pub mod MoveLaws
pub mod LikeLaws
pub mod OpenLaws
pub mod ColumnLaws
pub mod CompactLaws
pub mod TellLaws
pub mod Tells
pub mod OwnLaws
pub mod PartLaws
pub mod FinishLaws
pub mod CutLaws
pub mod StandLaws
