pub mod Deepening
pub mod Adding
pub mod Tallying
pub mod One
