pub mod MarkedLemmas
