mod Rises
mod Grows
mod Steps
mod Windows
pub mod Places
mod Ahead
mod Fronts
mod Logs
pub mod Heights
mod Answered
mod Reading
mod Filling
mod Going
