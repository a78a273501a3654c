pub mod Holding
pub mod Lines
pub mod Promises
