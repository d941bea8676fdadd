pub mod InIndex
pub mod Indexed
