pub mod Times
pub mod Adds
pub mod Headers
pub mod Logs
pub mod Older
pub mod Digests
pub mod Plain
