pub mod Asking
pub mod Begun
pub mod Ending
pub mod Examples
pub mod Going
pub mod Jobs
pub mod Parts
