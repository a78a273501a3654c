pub mod Repeats
pub mod Held
