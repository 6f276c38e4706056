pub mod Stacks
pub mod Owned
pub mod Changed
pub mod Holdings
pub mod Rooms
