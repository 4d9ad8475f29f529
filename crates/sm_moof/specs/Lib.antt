pub mod Shown
pub mod Sequence
