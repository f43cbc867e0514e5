-- Where the part of the pool lies that a read of a buffer hands back.
pub mod Place
