pub mod ArrivalLemmas
pub mod AwayLemmas
pub mod BroughtLemmas
pub mod ToldLemmas
pub mod FlagLemmas
pub mod TableLemmas
