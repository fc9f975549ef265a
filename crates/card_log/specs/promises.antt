-- What functions promise each other: read after the definitions beside this folder, which a customer believes.
pub mod Parse
pub mod Within
pub mod Begun
pub mod Location
pub mod Found
pub mod Feed
pub mod Walk
pub mod Mount
