-- What each call of the C layer answers and leaves, and the laws that the proofs cite.
pub mod Api
pub mod ApiLaws
pub mod NewLaws
pub mod QuietLaws
