pub mod Homes
pub mod Promises
