pub mod Kept
pub mod Listings
