pub mod Climbing
pub mod Counting
pub mod One
