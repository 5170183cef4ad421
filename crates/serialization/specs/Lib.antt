pub mod Serials
pub mod Arrangements
