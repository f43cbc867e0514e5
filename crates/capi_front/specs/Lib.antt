-- The call on the front batch, on bytes.
pub mod Front
pub mod FrontLaws
