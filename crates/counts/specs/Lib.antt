pub mod Tallies
pub mod Sums
pub mod Adding
pub mod Noting
pub mod Promises
