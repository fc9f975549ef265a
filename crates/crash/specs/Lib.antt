pub mod Event
pub mod Book
pub mod Demand3
pub mod History
pub mod Conflicts
pub mod LostUnit
