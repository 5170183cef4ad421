pub mod Claims
pub mod Scans
pub mod Trials
