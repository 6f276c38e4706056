pub mod Fresh
pub mod Infos
pub mod Holds
pub mod Splits
