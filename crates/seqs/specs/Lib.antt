pub mod Choose
pub mod Bytes
pub mod Over
pub mod First
