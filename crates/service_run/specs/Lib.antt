pub mod Documents
pub mod Reading
pub mod Telling
pub mod Steps
pub mod Course
pub mod Services
pub mod Restarts
