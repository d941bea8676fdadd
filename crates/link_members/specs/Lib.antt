pub mod Controlled
pub mod Listers
pub mod Lifts
pub mod Positions
