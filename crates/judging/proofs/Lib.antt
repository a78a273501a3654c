pub mod Judging
pub mod One
