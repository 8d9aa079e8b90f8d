pub mod Feeding
pub mod Cutting
pub mod Whole
