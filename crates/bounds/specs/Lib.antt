pub mod AccountBounds
pub mod Inner
