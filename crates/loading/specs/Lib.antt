pub mod Answers
pub mod Conditions
pub mod Outcomes
pub mod Promises
