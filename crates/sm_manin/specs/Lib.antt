pub mod Values
pub mod Patterns
pub mod ManifestWalk
pub mod RunTimes
pub mod ManifestFaults
pub mod Listings
pub mod ManifestRead
pub mod Answers
