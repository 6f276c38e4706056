pub mod Examples
pub mod BadExamples
pub mod Layout
pub mod Links
pub mod Nodes
pub mod Requests
pub mod Shards
