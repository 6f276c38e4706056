pub mod Pairs
pub mod Chains
