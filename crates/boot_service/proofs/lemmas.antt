pub mod Stages
pub mod Pending
pub mod Settling
