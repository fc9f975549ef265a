pub mod Telling
pub mod Refusals
