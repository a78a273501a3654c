pub mod Lists
pub mod Orders
pub mod Noting
