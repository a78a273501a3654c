pub mod Leaves
pub mod Shapes
pub mod One
