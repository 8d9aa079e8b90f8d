pub mod Reading
pub mod Telling
pub mod Building
