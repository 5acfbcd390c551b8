-- Bounds of the sums and of the amplitude, the limits of D, that the amplitude looks at twelve numbers only, and what negated numbers give.
mod Bounds
pub mod Parts
pub mod PeakLaws
pub mod Same
pub mod Negated
