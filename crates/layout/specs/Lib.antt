pub mod Positions
pub mod Sides
pub mod Inner
