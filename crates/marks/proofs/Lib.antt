pub mod Digits
pub mod One
