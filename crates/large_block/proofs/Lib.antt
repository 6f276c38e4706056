pub mod FreshLemmas
pub mod TryLemmas
pub mod InfoLemmas
pub mod HoldLemmas
pub mod SplitLemmas
