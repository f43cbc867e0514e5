-- The tests of 1 and 14 in pieces, and what they say.
pub mod Tested
pub mod BoundsLaws
pub mod RangeLaws
pub mod SaysLaws
pub mod Passed
