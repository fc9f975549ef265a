pub mod Accepted
pub mod Breaking
pub mod Calling
pub mod Events
pub mod Lending
pub mod Ranges
pub mod Running
pub mod Showing
