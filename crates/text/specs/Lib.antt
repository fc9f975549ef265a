pub mod Adler
pub mod Columns
pub mod Decimal
pub mod Hex
pub mod Line
pub mod Written
pub mod Each
