pub mod KindLemmas
pub mod LeadLemmas
pub mod LinkLemmas
pub mod WalkLemmas
mod TracedLemmas
pub mod KeptLemmas
pub mod SameLemmas
pub mod TogetherLemmas
