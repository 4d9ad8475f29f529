pub mod Places
pub mod Texts
pub mod Reading
pub mod Bodies
pub mod Metas
pub mod Reads
