mod Snoc
mod Listing
pub mod Counting
pub mod Lookups
pub mod Adding
mod Lanes
pub mod Together
