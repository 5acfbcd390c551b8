pub mod Host
pub mod Slopes
