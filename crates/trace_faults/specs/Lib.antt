pub mod Verbs
pub mod Faults
pub mod Texts
pub mod Examples
