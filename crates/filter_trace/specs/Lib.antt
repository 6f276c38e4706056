pub mod Walks
pub mod Pairs
pub mod Reached
pub mod Trace
pub mod Steps
pub mod Laws
pub mod MarksInside
