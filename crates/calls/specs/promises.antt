-- What functions promise each other: read after the definitions beside this folder, which a customer believes.
pub mod Adds
pub mod Checks
pub mod Entering
pub mod Giving
pub mod Flushing
pub mod Ending
