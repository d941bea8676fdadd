pub mod First
pub mod Looked
pub mod Noted
pub mod Begun
pub mod Carried
pub mod Worked
pub mod Words
