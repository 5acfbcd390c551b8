pub mod Curves
pub mod Timers
pub mod Rows
pub mod Planning
pub mod Worked
