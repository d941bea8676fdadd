pub mod Reading
pub mod Pieces
pub mod Faults
pub mod AsDefined
pub mod Steps
pub mod Workload
