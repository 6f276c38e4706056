pub mod PopLemmas
pub mod TryLemmas
pub mod PushLemmas
pub mod AnchorLemmas
pub mod HandLemmas
