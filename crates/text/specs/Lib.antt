pub mod Example
pub mod Promises
