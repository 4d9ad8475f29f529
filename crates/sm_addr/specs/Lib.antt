pub mod Cuts
pub mod Paths
pub mod Times
pub mod Targets
pub mod Written
