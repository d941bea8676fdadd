pub mod Searches
pub mod StatedLists
pub mod Each
pub mod Members
pub mod Controllers
pub mod Fields
pub mod Rules
pub mod Itself
