pub mod Lists
mod Logs
mod Doubts
mod Indexes
mod Settling
mod Appending
mod Reservings
pub mod Keepings
mod Places
mod Readying
mod Declarings
pub mod Fetching
mod Stores
mod Admitting
mod Walking
mod Looking
