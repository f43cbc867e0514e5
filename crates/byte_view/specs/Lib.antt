-- What the functions on views ask, and the laws that their proofs cite.
pub mod Copying
pub mod FoldLaws
pub mod WalkLaws
pub mod CopyLaws
pub mod CallerLaws
pub mod RuleLaws
