pub mod Equal
pub mod Once
pub mod Steps
pub mod FirstSecond
pub mod StatedAt
pub mod FreeNumbers
