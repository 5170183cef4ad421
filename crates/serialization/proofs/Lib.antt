pub mod Lists
pub mod Serials
pub mod Ready
mod Kept
