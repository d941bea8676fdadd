pub mod lemmas
mod Returned
mod Held
