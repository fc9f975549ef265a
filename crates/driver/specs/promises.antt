-- What functions promise each other: read after the definitions beside this folder, which a customer believes.
pub mod Listing
