pub mod Queries
pub mod Contents
pub mod Inner
