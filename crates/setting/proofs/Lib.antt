mod Calls
-- The laws of setting values that the proofs of this crate and of those above it cite.
pub mod FieldLaws
pub mod LowestLaws
pub mod FactorLaws
pub mod SlopeLaws
pub mod LimitLaws
