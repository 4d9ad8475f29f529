pub mod Chosen
pub mod Lasting
mod Lines
pub mod Opened
mod Real
pub mod Starting
