pub mod Examples
pub mod Owning
