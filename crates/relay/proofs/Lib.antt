-- Laws of the calls: their cases, what an accepted set is ready for, that a record stays admissible, and the induction over lists of calls.
pub mod Cases
pub mod Admission
pub mod Settled
pub mod Ready
pub mod Kept
pub mod Induction
