pub mod State
pub mod Rows
