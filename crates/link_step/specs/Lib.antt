pub mod Leaf
pub mod Hanging
pub mod OneLink
pub mod Clamped
pub mod Calls
pub mod Pairs
pub mod Releasing
pub mod Dependents
