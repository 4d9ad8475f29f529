pub mod Options
pub mod Places
pub mod Words
pub mod Helps
pub mod Line
pub mod Clapped
pub mod Matched
pub mod Orders
