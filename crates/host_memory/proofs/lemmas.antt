pub mod Torn
pub mod Picks
