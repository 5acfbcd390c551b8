pub mod Characteristic
pub mod Bound
pub mod Slopes
pub mod OneEnd
