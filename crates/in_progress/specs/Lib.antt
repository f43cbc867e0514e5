-- What copying a part of a batch into a column asks and leaves, and the laws that the proofs cite.
pub mod Part
pub mod AskLaws
pub mod AlongLaws
pub mod StringLaws
pub mod CompactLaws
pub mod AttachLaws
pub mod RowLaws
pub mod CallerLaws
