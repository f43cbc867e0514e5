-- The laws that the proofs of the calls on the state alone cite.
pub mod QueryLaws
