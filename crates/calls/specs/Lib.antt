pub mod Performs
pub mod promises
