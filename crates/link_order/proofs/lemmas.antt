pub mod Marked
pub mod More
pub mod Placed
pub mod Positions
pub mod Rows
