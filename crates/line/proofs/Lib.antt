-- How long texts are.
pub mod Few
