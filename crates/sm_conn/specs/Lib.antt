pub mod Parts
pub mod Live
pub mod Stands
