pub mod ChainLemmas
pub mod LinkLemmas
pub mod MapLemmas
pub mod ShardLemmas
pub mod PlacedLemmas
pub mod FoundLemmas
pub mod SpliceLemmas
