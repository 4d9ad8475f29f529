pub mod ManifestText
pub mod ReadAgain
pub mod Shown
pub mod Plain
