mod CutLaw
mod Escapes
pub mod Without
pub mod RoundTrip
