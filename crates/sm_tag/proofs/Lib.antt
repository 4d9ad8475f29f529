mod TagLengths
pub mod TagTotals
mod AttributeLemmas
mod Pieces
mod MarkupLemmas
mod NameSets
pub mod Zeros
pub mod Unique
pub mod WrittenTags
pub mod WrittenNext
mod GrammarSound
mod GrammarRead
mod Standing
mod Wrong
mod PlainLemmas
