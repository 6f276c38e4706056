pub mod Errors
pub mod Help
pub mod Seeds
pub mod Words
