pub mod Host
pub mod Promises
