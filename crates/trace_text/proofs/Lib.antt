pub mod TextLemmas
pub mod RunLemmas
pub mod OrderLemmas
pub mod MapLemmas
pub mod WalkLemmas
pub mod LawLemmas
pub mod ReadingLemmas
pub mod PrintedLemmas
pub mod ReplyLemmas
pub mod UseLemmas
pub mod NumberLemmas
pub mod PieceLemmas
pub mod WordLemmas
pub mod LineLemmas
pub mod LongestLemmas
mod KeyLemmas
pub mod WrittenLemmas
pub mod EventLemmas
pub mod SizeLemmas
pub mod ParseStepLemmas
pub mod ScheduleLemmas
mod OutsideExamples
