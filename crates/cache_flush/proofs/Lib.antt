pub mod RunLemmas
pub mod LiftLemmas
pub mod LiftingLemmas
pub mod GiveLemmas
pub mod FlushLemmas
pub mod FlushingLemmas
pub mod AllLemmas
