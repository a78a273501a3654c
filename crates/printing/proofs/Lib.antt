pub mod Decimal
pub mod Putting
pub mod Lines
pub mod Written
pub mod Lengths
pub mod One
