pub mod CallerLemmas
pub mod MarkLemmas
pub mod LineStepLemmas
