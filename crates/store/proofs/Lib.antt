pub mod Fetched
pub mod Lists
pub mod OpeningRuns
pub mod RoundTrip
pub mod Runs
