pub mod Books
pub mod Places
pub mod Tables
pub mod Writing
pub mod Taking
pub mod Codes
