pub mod Ringed
