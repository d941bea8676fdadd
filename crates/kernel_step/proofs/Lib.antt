pub mod Searching
pub mod Accepted
pub mod OnLink
