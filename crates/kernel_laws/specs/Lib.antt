pub mod Frames
pub mod Takes
pub mod Laws
