mod Runs
mod LineLaw
pub mod TextLaw
pub mod BodyLaw
mod PlainLaw
mod PlaceLaw
mod ReadLaw
