pub mod Words
pub mod Entries
pub mod Tables
pub mod Pieces
pub mod Fronts
pub mod One
