pub mod Events
pub mod Page
pub mod PageInput
pub mod Worked
