pub mod Tests
pub mod Descents
pub mod One
