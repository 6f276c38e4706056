pub mod Ended
pub mod Posts
pub mod Rows
pub mod Turns
