pub mod Noting
pub mod One
