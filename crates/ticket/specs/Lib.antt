pub mod Packed
pub mod Tickets
pub mod Laws
