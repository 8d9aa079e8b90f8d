pub mod Beyond
pub mod Demands
