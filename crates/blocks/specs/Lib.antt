-- Block sizes: the definitions, their laws, and every history of asks.
pub mod Block
pub mod BlockLaws
