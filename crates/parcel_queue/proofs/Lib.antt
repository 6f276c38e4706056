pub mod OrderLemmas
pub mod PieceLemmas
pub mod ShareLemmas
pub mod FairLemmas
pub mod JoinLemmas
pub mod DeliveryLemmas
pub mod RowLemmas
pub mod EachLemmas
pub mod HandLemmas
pub mod NumberLemmas
mod ExampleLemmas
