pub mod Ends
pub mod Watching
pub mod Worked
