pub mod PairLinks
