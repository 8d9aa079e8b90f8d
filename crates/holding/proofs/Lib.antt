pub mod Puts
pub mod Holding
