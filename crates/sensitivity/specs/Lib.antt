pub mod OneEnd
pub mod Trips
pub mod TwoSides
pub mod Example
