pub mod ActLines
pub mod RecordNumbers
pub mod Packed
