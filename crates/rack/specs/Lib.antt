pub mod Rack
pub mod Promises
