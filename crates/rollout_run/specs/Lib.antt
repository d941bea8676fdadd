pub mod Texts
pub mod Printing
pub mod Steps
pub mod Whole
