pub mod FrontLemmas
mod JoinLemmas
pub mod WholeLemmas
mod TrackLemmas
mod ShownLemmas
pub mod SequenceLemmas
