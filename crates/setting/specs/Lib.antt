pub mod Values
pub mod Limits
pub mod Calls
pub mod Lowest
pub mod Slopes
pub mod Worked
pub mod Verdicts
