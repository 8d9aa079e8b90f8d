pub mod Talking
pub mod Agreeing
pub mod Granting
