pub mod MarkLemmas
pub mod EightLemmas
