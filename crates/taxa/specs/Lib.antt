pub mod Searches
pub mod Chains
pub mod Promises
