pub mod Choice
pub mod Entries
pub mod Apart
pub mod Added
pub mod Snoc
pub mod New
pub mod AllAdds
mod OlderAdds
mod Lists
pub mod AllLogs
mod PlainLemmas
pub mod ListedKept
