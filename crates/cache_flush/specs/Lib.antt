pub mod Runs
pub mod Lifts
pub mod Gives
pub mod Flushes
pub mod All
pub mod Examples
