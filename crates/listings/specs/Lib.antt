-- Listings: taken, listed, unlisted, let go, freed; and their laws.
pub mod Listing
pub mod ListingLaws
