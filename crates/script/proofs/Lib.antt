pub mod Refused
pub mod Rows
pub mod Samples
pub mod Words
