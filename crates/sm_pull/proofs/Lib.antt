pub mod Dials
pub mod Tried
pub mod Disks
pub mod Judging
mod Finding
pub mod BelowStays
pub mod Offered
pub mod Moments
