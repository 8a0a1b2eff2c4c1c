-- Loops and lists: nothing here knows the book.
-- Read Logic, Every, Refusals and Left for what a test or an answer tells; Sums and Counts; then Ranges, Pieces, Parts, Sets, Partly and Writing for lists made of pieces.
pub mod Logic
pub mod Every
pub mod Refusals
pub mod PassedSoFar
pub mod Left
pub mod Sums
pub mod Counts
pub mod Ranges
pub mod Pieces
pub mod Parts
pub mod Sets
pub mod Arrays
pub mod Partly
pub mod Writing
