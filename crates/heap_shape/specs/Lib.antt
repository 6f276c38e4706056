pub mod Shape
pub mod Standing
pub mod Whole
pub mod Effects
pub mod Moves
pub mod Draining
pub mod Examples
