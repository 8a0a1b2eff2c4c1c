pub mod Kept
pub mod Replies
pub mod All
