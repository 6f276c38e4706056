pub mod SpentLemmas
pub mod GivenLemmas
pub mod CameLemmas
pub mod OpenedLemmas
pub mod RowLemmas
pub mod OnlyLemmas
pub mod CutLemmas
pub mod TicketLemmas
