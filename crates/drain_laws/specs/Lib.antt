pub mod Spent
pub mod Gains
pub mod Drains
