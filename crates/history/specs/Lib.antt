pub mod Replica
pub mod Books
pub mod Ledger
pub mod Made
pub mod Claim
pub mod Guarantees
