mod Least
mod Over
mod Joined
mod Fit
mod Valid
mod ValidAnswers
mod WalkLemmas
mod WalkPlaced
mod WalkRuled
mod WrittenLines
mod OneAnswer
pub mod WrittenValues
mod WrittenTracks
mod WrittenChannel
mod OneReading
mod PlainLemmas
