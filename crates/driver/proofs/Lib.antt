pub mod Making
pub mod Listing
pub mod Queueing
pub mod Few
