pub mod Committing
pub mod Attempts
pub mod Saying
pub mod Applying
pub mod Calm
