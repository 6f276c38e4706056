pub mod OrderlyDictionary
pub mod FourBlocks
pub mod Examples
