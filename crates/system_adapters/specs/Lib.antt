pub mod Silent
pub mod State
