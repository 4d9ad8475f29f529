pub mod Pairs
pub mod Lending
