pub mod HoldLemmas
pub mod ListLemmas
