pub mod Shell
pub mod Replies
pub mod Called
pub mod Cut
pub mod Shown
pub mod Ran
pub mod Viewed
