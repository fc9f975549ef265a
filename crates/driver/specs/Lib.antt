pub mod Stores
pub mod promises
