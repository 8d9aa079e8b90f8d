pub mod Texts
pub mod RoundTrip
pub mod Saved
pub mod Judging
