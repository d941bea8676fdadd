pub mod AddrText
pub mod Line
pub mod Words
