-- In the order in which to read them: no group cites a later one.
pub mod Cases
pub mod Loops
pub mod Bytes
pub mod Pile
pub mod File
pub mod Record
pub mod Take
pub mod Demand
