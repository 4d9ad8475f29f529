pub mod WireLaw
mod PlainLaw
mod PartLaw
