pub mod Told
pub mod Views
pub mod Moments
pub mod Recording
pub mod Lives
pub mod Transcripts
mod Connections
mod Crashes
mod Filled
mod Given
mod Kept
mod Noted
mod Opens
mod Ordered
mod Outcomes
mod Places
mod Sends
mod Steps
pub mod Tearing
mod Writes
