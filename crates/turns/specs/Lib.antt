pub mod Turns
pub mod Saying
