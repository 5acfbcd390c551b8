-- The reading of integer statements by `omega`, and the laws that the other crates' proofs cite.
pub mod Reading
pub mod Laws
pub mod Machine
mod Rounding
pub mod HalfUnit
pub mod RootLaws
mod Newton
mod FewTurns
pub mod SumLaws
