pub mod Split
pub mod Numbers
pub mod Cases
pub mod Octets
pub mod Exact
pub mod Written
pub mod MacLaws
pub mod Slash
