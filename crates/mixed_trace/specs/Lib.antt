pub mod Reach
pub mod Codes
pub mod Steps
pub mod Recovery
pub mod Laws
pub mod Conservative
pub mod Examples
