pub mod Computing
pub mod KnownRuns
pub mod Scenario
pub mod TwoUnits
