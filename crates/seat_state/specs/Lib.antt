pub mod Notes
pub mod Superblocks
pub mod OwnerLists
pub mod OpenedSuperblocks
pub mod Parts
