pub mod Reordered
pub mod Alike
