pub mod Short
pub mod Views
pub mod Sizes
pub mod Positions
pub mod Puts
pub mod Entries
