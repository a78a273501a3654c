pub mod Climbing
pub mod Promises
