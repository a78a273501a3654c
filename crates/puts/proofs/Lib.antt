pub mod Stored
pub mod Putting
pub mod Sealing
pub mod One
