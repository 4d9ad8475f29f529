pub mod Transcripts
mod Between
mod Steps
pub mod Lasting
pub mod Going
mod Sending
mod Reaching
pub mod Lists
mod Validity
mod Giving
mod Pieces
pub mod Lives
mod Taking
pub mod Events
pub mod Ending
pub mod Adding
pub mod Growing
mod Later
pub mod Answering
mod Requests
pub mod Fronts
mod Onward
pub mod Quiet
mod Moving
pub mod Stepping
mod Along
mod Laws
mod Replying
mod Crashing
mod Counting
mod Saying
