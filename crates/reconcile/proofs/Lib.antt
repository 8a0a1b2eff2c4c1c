-- In the order in which to read them: no file cites a later one.
pub mod SameTicket
pub mod Rising
pub mod Passing
pub mod Laws
pub mod Readings
pub mod Cursors
pub mod Steps
pub mod Reconciled
pub mod Consequences
pub mod Cases
