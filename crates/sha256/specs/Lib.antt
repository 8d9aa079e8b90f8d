pub mod Words
pub mod Constants
pub mod Padding
pub mod Hash
pub mod Work
