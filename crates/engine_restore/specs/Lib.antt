pub mod Given
pub mod Restoring
