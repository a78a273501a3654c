pub mod Reading
pub mod Readers
