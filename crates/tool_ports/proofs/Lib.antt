pub mod ChanceLemmas
pub mod SourceLeftLemmas
pub mod Written
