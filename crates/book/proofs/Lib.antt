pub mod Lines
pub mod Replies
pub mod Bodies
pub mod Entries
