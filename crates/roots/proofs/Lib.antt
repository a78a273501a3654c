pub mod Parents
pub mod Ways
pub mod One
