pub mod Fitting
pub mod Follows
pub mod Outcomes
pub mod RoundTrip
pub mod Single
