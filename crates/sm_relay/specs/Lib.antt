pub mod Asked
pub mod Wants
pub mod Pulls
pub mod Rounds
pub mod Ends
pub mod Read
pub mod Served
