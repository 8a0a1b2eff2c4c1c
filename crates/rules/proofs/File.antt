-- A book's bytes. Body, BodySize, Positions, Front and Written: what was written is read again. Readable: a book passes its check exactly when. LawfulBook: lawful piles make one.
-- Then what opens a book, what lists its contents, what finds a pile in it, and what changes it: one number (Cells, PutCell, AfterAct) or one body (PutBody). Refused: nothing.
pub mod Body
pub mod BodySize
pub mod Positions
pub mod Front
pub mod Written
pub mod Readable
pub mod Rising
pub mod Risen
pub mod LawfulBook
pub mod Opened
pub mod Contents
pub mod Found
pub mod Cells
pub mod PutCell
pub mod AfterAct
pub mod PutBody
pub mod Refused
