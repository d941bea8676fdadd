pub mod Shown
pub mod Printable
