pub mod Runs
pub mod Families
pub mod Opened
pub mod Loaded
pub mod Kept
pub mod Places
