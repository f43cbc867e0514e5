-- The pool: registering, letting go, reading, copying, and the ranges of 14.
pub mod Register
pub mod RegisterLaws
pub mod Read
pub mod ReadLaws
pub mod Carry
pub mod CarryLaws
