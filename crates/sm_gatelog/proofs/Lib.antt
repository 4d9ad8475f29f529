mod Tolds
mod Windows
mod Records
mod Outcomes
pub mod Sound
pub mod Steps
mod OneReading
mod Walks
mod Bodies
pub mod Settling
pub mod Heads
pub mod FreshOutcomes
