mod Lexing
mod Rows
mod Walking
mod Reading
mod Adding
mod Agreeing
mod Finding
mod Telling
mod Taking
mod Playing
mod Naming
pub mod Sounding
