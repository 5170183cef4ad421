pub mod Lawful
pub mod Fits
pub mod Replies
mod Stack
