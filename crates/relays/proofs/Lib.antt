-- In the order in which to read them: no file cites a later one. Bodies: lawful ones, computed. Cases: the laws on three small books, computed.
-- Rows, Lawful and Join: the laws at one row, lawful bodies, and the theorem, of books of any size. Plans: any number of books in any grouping. Checked: books that pass
-- document 01's whole check. Written and Read: the files of such books, and the books of readable files. Files: an accepted take is the join, and the laws on bytes;
-- FilePlans: any number of files. Takes: grouping and order of accepted takes. Instances: books and files that the claims speak of.
-- Consequences: what a weaker claim would not give.
pub mod Bodies
pub mod Cases
pub mod Rows
pub mod Lawful
pub mod Join
pub mod Plans
pub mod Checked
pub mod Written
pub mod Read
pub mod Files
pub mod FilePlans
pub mod Takes
pub mod Instances
pub mod Consequences
