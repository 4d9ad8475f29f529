pub mod Storing
pub mod Idling
mod Turning
mod Telling
mod Pulling
