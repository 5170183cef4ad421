pub mod Bitwise
pub mod Room
pub mod Folds
