pub mod Read
pub mod Asks
pub mod Told
