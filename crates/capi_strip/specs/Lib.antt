-- What the exported functions of the strip answer and leave, on bytes.
pub mod StripApi
pub mod StripApiLaws
