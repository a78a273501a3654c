pub mod Halves
pub mod Blocks
pub mod Image
pub mod Answers
pub mod Promises
