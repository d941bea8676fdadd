pub mod Programs
pub mod Limits
