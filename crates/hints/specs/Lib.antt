pub mod Hints
pub mod Promises
