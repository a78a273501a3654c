pub mod Filling
pub mod Stories
pub mod Loads
pub mod One
