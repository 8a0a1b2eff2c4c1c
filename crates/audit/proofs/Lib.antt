pub mod There
pub mod Audits
pub mod Verdict
pub mod DeskRights
pub mod OfAccount
pub mod Ranges
