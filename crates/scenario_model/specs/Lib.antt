pub mod Draws
pub mod Trees
pub mod Counts
pub mod Asking
pub mod Saying
pub mod Answering
