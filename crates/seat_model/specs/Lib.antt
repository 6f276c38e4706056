pub mod CacheState
pub mod Changes
pub mod Emptied
