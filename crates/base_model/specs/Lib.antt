pub mod PathText
pub mod Lists
