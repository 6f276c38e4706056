pub mod OwnWords
pub mod Standing
pub mod Opened
pub mod OpenedOwners
