pub mod Words
pub mod Entries
pub mod Passing
pub mod Promises
