pub mod AscendingLemmas
pub mod WritingLemmas
pub mod PartLemmas
pub mod SurveyLemmas
pub mod SuperblockLemmas
pub mod ListLemmas
pub mod OwnerLemmas
pub mod PassLemmas
pub mod RoleLemmas
pub mod LinkedLemmas
pub mod RebuildLemmas
pub mod KeptLemmas
pub mod UnchangedLemmas
pub mod LeavesLemmas
pub mod OrderLemmas
pub mod RelistedLemmas
pub mod OutcomeLemmas
pub mod CurrentLemmas
mod RefusedLemmas
mod DifferenceLemmas
mod InPlaceLemmas
pub mod AlikeLemmas
