pub mod Writing
pub mod Speaking
