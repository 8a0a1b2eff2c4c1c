pub mod View
pub mod Replies
pub mod Inner
