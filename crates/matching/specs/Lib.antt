pub mod Matching
pub mod Sets
pub mod Bank
pub mod Neutral
pub mod Weights
pub mod MatchingInput
pub mod Numbers
