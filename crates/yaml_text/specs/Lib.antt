pub mod Scalars
pub mod Spelled
pub mod Layout
pub mod Pieces
