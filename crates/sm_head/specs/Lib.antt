pub mod Fields
pub mod Lengths
pub mod Heads
pub mod Judged
pub mod Requests
pub mod Responses
pub mod Replies
pub mod Shown
