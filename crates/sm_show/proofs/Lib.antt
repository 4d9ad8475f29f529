pub mod Resting
mod Readings
mod Marked
mod Going
