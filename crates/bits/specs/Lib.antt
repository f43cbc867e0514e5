-- The definitions that the contracts cite, and their laws.
pub mod Bits
pub mod ByteLaws
pub mod BitLaws
pub mod ValueLaws
pub mod CodeLaws
