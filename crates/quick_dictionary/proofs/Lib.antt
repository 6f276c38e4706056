pub mod KeptLemmas
pub mod ReopenedLemmas
pub mod OneWayLemmas
