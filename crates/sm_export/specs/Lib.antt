pub mod Heads
pub mod Qualities
pub mod Exporting
pub mod Gathering
pub mod Reading
pub mod Storing
