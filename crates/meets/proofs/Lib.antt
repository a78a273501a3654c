pub mod Joins
pub mod One
