pub mod Gathering
pub mod CardPage
pub mod Contents
pub mod Lines
pub mod PageMost
pub mod Pages
pub mod Reading
