pub mod Arguments
pub mod Message
pub mod Path
pub mod Status
pub mod Within
