pub mod Closing
pub mod Pairs
pub mod Words
pub mod Working
