pub mod Opened
pub mod Digits
pub mod RoundTrip
pub mod Consequences
pub mod Cases
