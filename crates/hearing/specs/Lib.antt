pub mod Awaiting
pub mod Hearing
pub mod Knowing
