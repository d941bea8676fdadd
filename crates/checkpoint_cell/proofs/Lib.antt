pub mod lemmas
pub mod Records
pub mod Marks
pub mod Puts
pub mod Heads
pub mod Loads
pub mod Twice
