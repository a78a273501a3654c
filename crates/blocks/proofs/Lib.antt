pub mod Halves
pub mod Sums
pub mod Blocks
pub mod Image
pub mod Searches
pub mod Both
pub mod Judging
pub mod One
