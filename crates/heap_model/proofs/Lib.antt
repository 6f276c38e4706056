pub mod SizeLemmas
pub mod WordLemmas
pub mod BlockLemmas
pub mod ImageLemmas
pub mod ReachLemmas
pub mod HeaderLemmas
pub mod MemberLemmas
pub mod CountingLemmas
pub mod ListLemmas
pub mod PartLemmas
pub mod DecisionLemmas
pub mod EmptyLemmas
mod ExampleLemmas
