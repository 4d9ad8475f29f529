pub mod Opening
pub mod Relaying
pub mod Following
