-- Laws of lists, for the proofs of the other crates.
pub mod TestLaws
pub mod Places
pub mod Fill
pub mod Maps
pub mod Loops
pub mod Runs
pub mod Puts
