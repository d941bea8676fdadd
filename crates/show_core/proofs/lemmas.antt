pub mod Writable
pub mod LinkTrees
pub mod NetTrees
pub mod Turns
