pub mod Local
pub mod Model
pub mod Judged
pub mod Words
