-- What the steps of a push ask and leave, and the laws that the proofs cite.
pub mod Taking
pub mod PartLaws
pub mod CutLaws
pub mod PushLaws
