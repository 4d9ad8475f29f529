mod Ahead
mod Places
mod Steps
pub mod Acts
mod Asked
mod Replied
mod Fronts
mod Telling
mod KeptNow
pub mod Real
mod Showing
mod Recalled
mod Whole
