pub mod Within
pub mod Silent
pub mod Exchanged
