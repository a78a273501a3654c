pub mod Digits
pub mod Words
pub mod Cursor
pub mod Spelling
pub mod One
