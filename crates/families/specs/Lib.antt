pub mod Families
pub mod Writing
pub mod Loading
pub mod Swaps
