pub mod Trees
pub mod Lists
pub mod Changes
pub mod Endings
pub mod Meanings
