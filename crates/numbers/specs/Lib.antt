pub mod Numbers
pub mod Words
pub mod Cursor
pub mod Promises
