pub mod Listing
pub mod Page
pub mod promises
