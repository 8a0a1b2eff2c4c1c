-- Counts, Lists and Laws are what the crate promises; Inner is what its own functions promise each other.
pub mod Counts
pub mod Lists
pub mod Laws
pub mod Inner
