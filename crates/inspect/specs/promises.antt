-- What functions promise each other: read after the definitions beside this folder, which a customer believes.
pub mod Located
pub mod Clauses
pub mod Relisting
pub mod Inspect
