pub mod Putting
pub mod Writes
pub mod One
