pub mod Ringed
pub mod Pairs
pub mod Rings
