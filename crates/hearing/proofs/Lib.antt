pub mod Fronts
pub mod Outcomes
