pub mod Operations
pub mod Formed
pub mod Writing
pub mod Reading
pub mod Calls
