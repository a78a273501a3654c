pub mod Asking
pub mod One
