pub mod Reopened
pub mod Anchored
pub mod Written
pub mod Opened
pub mod Examples
