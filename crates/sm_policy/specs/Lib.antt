pub mod Counts
pub mod Rungs
