-- What functions promise each other: read after the definitions beside this folder, which a customer believes.
pub mod Gathered
pub mod Reading
pub mod Shown
pub mod Taken
