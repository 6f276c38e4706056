pub mod Closed
pub mod Examples
pub mod Held
pub mod Together
