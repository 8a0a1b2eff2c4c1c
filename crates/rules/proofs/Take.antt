-- The take. Order: at least is a preorder, later a strict order. RowOrder and Compared: what comparing two rows tells, of numbers and of bytes. RowBytes and MergeRow: the rows
-- of two books. Merge and InPlace: the whole book that a take leaves, from its piles and written in place. Report: how many rows it changed.
pub mod Order
pub mod RowOrder
pub mod Compared
pub mod RowBytes
pub mod MergeRow
pub mod Merge
pub mod InPlace
pub mod Report
