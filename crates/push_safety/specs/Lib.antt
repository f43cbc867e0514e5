-- What holds while a push goes on, and that its steps keep it.
pub mod Run
pub mod TestedLaws
pub mod ReadLaws
pub mod BooksGo
pub mod Firm
pub mod StepGoes
pub mod SumLaws
pub mod BlockGoes
pub mod OpenGoes
pub mod Along
pub mod CompactGoes
pub mod AttachGoes
pub mod PartGoes
pub mod FinishGoes
pub mod WholeGoes
pub mod PushGoes
pub mod CallerLaws
