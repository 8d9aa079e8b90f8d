pub mod Padding
pub mod Scheduling
pub mod Digests
