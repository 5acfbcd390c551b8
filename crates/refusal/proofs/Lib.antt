-- The first row of a table that applies, for the proofs of the crates above.
pub mod Stops
