pub mod Counting
pub mod Tests
pub mod Shapes
pub mod One
