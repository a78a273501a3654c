pub mod Opening
pub mod One
