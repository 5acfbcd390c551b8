-- Lists of sets laid out flat, the window of the last twelve, the theorems over lists of calls, and the examples beside them.
pub mod Filing
pub mod Demand2
pub mod TripLaws
mod TimerLaws
mod FlagLaws
mod Apartness
mod SlopeLaws
pub mod Demand3
mod Through
mod Turned
