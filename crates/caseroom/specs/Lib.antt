pub mod Replied
pub mod Written
pub mod Heard
