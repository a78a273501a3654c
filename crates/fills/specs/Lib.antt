pub mod Filling
pub mod Settling
pub mod Promises
