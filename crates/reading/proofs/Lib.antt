pub mod Fits
pub mod Filling
pub mod Rest
pub mod Counted
