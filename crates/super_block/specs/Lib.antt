pub mod Info
pub mod Links
pub mod Division
pub mod Index
pub mod Contents
pub mod Examples
