pub mod Dealing
pub mod Dealt
pub mod DealtExamples
pub mod Following
pub mod FollowingExamples
pub mod Gathering
pub mod Scrambled
