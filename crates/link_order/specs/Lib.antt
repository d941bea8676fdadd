pub mod Index
pub mod Implied
pub mod Rows
