pub mod Chains
pub mod Pairs
