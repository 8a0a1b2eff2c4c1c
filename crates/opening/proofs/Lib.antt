pub mod GivenList
pub mod GivenShares
pub mod Done
pub mod Opened
