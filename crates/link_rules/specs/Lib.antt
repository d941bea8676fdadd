pub mod Rules
pub mod Rows
pub mod Outline
pub mod Candidates
