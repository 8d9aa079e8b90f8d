pub mod Forked
pub mod Changed
pub mod Planned
pub mod Seen
pub mod Rewritten
pub mod Asked
