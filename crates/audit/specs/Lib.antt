pub mod Audits
pub mod Inner
