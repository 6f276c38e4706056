pub mod BoxLemmas
pub mod CollectLemmas
pub mod PartLemmas
pub mod PutLemmas
pub mod RowLemmas
pub mod SortLemmas
pub mod TakeLemmas
pub mod ValueLemmas
