pub mod Filling
pub mod Turns
pub mod Seats
pub mod Written
pub mod One
