pub mod Fits
pub mod One
