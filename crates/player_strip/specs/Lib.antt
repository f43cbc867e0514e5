-- What reading and taking a batch into the strip answer and leave, and the laws that the proofs cite.
pub mod StripCall
pub mod ColumnsWorked
pub mod Promises
pub mod RowExits
pub mod AlongLaws
pub mod FrontLaws
pub mod CallLaws
pub mod CallerLaws
