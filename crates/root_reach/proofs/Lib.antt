pub mod OriginLemmas
pub mod ReachStepLemmas
pub mod TraceLemmas
