pub mod Fields
pub mod Pairs
pub mod Links
pub mod Network
