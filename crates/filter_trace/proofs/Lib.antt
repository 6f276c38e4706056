pub mod WalkLemmas
pub mod PairLemmas
pub mod TraceStepLemmas
pub mod TraceLemmas
mod MarksLemmas
