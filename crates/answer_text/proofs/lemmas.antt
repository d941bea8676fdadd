pub mod Told
pub mod Plans
