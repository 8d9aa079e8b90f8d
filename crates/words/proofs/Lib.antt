pub mod Names
pub mod Cuts
pub mod Texts
