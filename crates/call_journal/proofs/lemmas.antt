pub mod CallLaws
pub mod Record
pub mod Replaying
pub mod Slots
pub mod Versions
pub mod Weighing
