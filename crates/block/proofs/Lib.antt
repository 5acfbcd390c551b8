-- Laws of bytes and of lists, for the proofs of this crate and of those above it.
pub mod Turns
pub mod ByteLaws
pub mod ColumnLaws
