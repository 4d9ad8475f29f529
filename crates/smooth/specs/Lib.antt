pub mod Given
pub mod Troubles
