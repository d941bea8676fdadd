pub mod Raw
pub mod Silent
