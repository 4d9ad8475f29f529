mod NameLemmas
pub mod BoxLemmas
pub mod BoxTexts
mod BoxJoins
pub mod OrderLemmas
mod PassLemmas
pub mod WrittenBoxes
mod WrittenRows
mod WrittenFields
mod WrittenTraf
pub mod WrittenFragment
mod WrittenUserBoxes
pub mod TextLengths
pub mod DigitLemmas
mod TrackIdLemmas
mod SoundLemmas
mod ItemLemmas
mod PartLemmas
mod CutLemmas
