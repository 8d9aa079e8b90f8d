pub mod Decimals
pub mod Spelling
pub mod ReadBack
