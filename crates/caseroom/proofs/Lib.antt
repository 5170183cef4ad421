pub mod Reach
pub mod Same
pub mod Asked
pub mod Written
pub mod Sessions
