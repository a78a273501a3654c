pub mod Runs
pub mod Subtrees
pub mod Codes
pub mod Moving
pub mod One
