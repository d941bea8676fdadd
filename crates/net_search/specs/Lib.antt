pub mod Search
pub mod Ranges
