pub mod Printing
pub mod Putting
pub mod Written
pub mod Promises
