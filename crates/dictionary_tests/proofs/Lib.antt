pub mod TestLeftLemmas
pub mod MoveLemmas
