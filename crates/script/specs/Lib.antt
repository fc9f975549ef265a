pub mod Arguments
pub mod Commands
pub mod Lines
pub mod Spelling
