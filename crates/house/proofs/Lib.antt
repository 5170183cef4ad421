pub mod Weighing
pub mod Come
pub mod Nexts
mod Ends
