pub mod Joined
pub mod lemmas
