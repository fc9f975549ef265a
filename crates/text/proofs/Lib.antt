pub mod Columns
pub mod Digits
pub mod Lines
pub mod Nibbles
pub mod ReadBack
pub mod Samples
pub mod Writing
pub mod Sums
