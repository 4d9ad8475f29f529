pub mod Places
pub mod Chunked
pub mod Steps
pub mod Cuts
