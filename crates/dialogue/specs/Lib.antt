pub mod Counts
pub mod Spoiled
