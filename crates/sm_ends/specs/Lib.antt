pub mod Ended
pub mod Faults
pub mod Moves
pub mod Memory
pub mod TracksHeld
