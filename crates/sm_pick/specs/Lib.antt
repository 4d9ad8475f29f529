pub mod Due
pub mod Search
pub mod Sentences
pub mod Skim
