pub mod Dates
pub mod Outcomes
pub mod One
