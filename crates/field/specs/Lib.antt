pub mod Numbers
pub mod Faults
pub mod Fields
pub mod Words
