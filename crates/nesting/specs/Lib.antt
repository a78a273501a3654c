pub mod Runs
pub mod Codes
pub mod Moving
pub mod Promises
