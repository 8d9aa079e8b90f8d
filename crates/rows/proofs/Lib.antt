pub mod InMemory
pub mod Puts
pub mod ByHand
pub mod Finding
