pub mod CountLemmas
pub mod ListLemmas
pub mod OpenLemmas
pub mod QueueLemmas
