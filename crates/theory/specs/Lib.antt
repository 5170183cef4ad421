pub mod Lists
pub mod Order
pub mod Serial
pub mod Case
pub mod Promises
pub mod Examples
