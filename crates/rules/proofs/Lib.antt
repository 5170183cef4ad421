pub mod Executions
pub mod Scans
pub mod Lists
pub mod Masks
pub mod Turns
pub mod Trials
pub mod Pairs
