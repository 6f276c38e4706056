pub mod OpenedLemmas
pub mod OwnerLemmas
