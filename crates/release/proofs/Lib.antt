pub mod Comparing
pub mod One
