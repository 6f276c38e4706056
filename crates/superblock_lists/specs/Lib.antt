pub mod Pops
pub mod Pushes
pub mod Anchors
pub mod Hands
