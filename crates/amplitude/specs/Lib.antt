pub mod Amplitude
pub mod Parts
pub mod Peak
