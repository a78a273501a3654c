pub mod Homes
pub mod One
