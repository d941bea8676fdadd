pub mod Cells
pub mod Saved
