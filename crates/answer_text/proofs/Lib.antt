pub mod lemmas
pub mod Pieces
