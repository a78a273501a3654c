pub mod Outcomes
pub mod One
