pub mod BothRead
pub mod ByMarks
pub mod InOrder
pub mod Marking
pub mod Moved
pub mod RowAnswers
pub mod TakeLines
