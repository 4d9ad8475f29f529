mod Framing
mod Heads
mod Filling
mod Chunks
mod Pairs
mod Fronts
pub mod Origin
pub mod Answering
pub mod Alone
pub mod OneReply
pub mod OneGot
mod Listed
mod CutFronts
mod Fields
mod Hex
mod Pushes
pub mod Urls
