pub mod Staff
pub mod Showing
pub mod Telling
pub mod Runs
