pub mod LinkLemmas
pub mod CutLemmas
pub mod TakeLemmas
pub mod FillRowLemmas
pub mod RefillLemmas
pub mod ClassFillLemmas
