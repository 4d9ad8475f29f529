pub mod Asks
pub mod Adds
pub mod Tracks
pub mod Below
pub mod Patience
