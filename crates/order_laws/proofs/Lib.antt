pub mod Readings
pub mod Keys
pub mod Tables
pub mod Lists
pub mod Links
pub mod Routes
pub mod Documents
pub mod Sorted
