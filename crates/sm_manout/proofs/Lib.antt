mod Joined
mod StreamLemmas
mod Escapes
mod ReadValues
mod ReadLines
mod ReadRuns
mod ReadLevels
mod ReadStreams
pub mod ReadManifest
mod FewestRuns
mod Among
mod ShownPieces
mod ShownLines
mod ShownRuns
mod ShownLevels
mod ShownOpening
mod ShownLevelsRead
mod ShownTimes
pub mod ShownDeclared
mod ShownStream
mod ShownManifest
mod Whole
