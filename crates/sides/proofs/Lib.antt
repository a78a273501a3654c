pub mod Climbing
pub mod Steps
pub mod Tests
pub mod Both
pub mod One
