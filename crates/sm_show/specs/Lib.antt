pub mod Recalling
pub mod Marks
