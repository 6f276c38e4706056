pub mod Images
pub mod Opened
pub mod Faults
pub mod Examples
