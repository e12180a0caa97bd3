pub mod Refusals
pub mod Division
pub mod Fairness
