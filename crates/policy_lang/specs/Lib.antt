pub mod Placing
pub mod Held
pub mod Answers
pub mod Parting
