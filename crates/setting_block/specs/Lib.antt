pub mod Layout
pub mod Calls
pub mod RoundTrip
pub mod Held
pub mod Worked
