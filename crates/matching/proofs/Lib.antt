-- From linear forms of the samples to the bounds of Total.antt and the negated numbers of Negated.antt, which other crates cite.
mod Threes
mod Bits
mod Forms
mod Rows
mod Parts
mod OneEnd
mod Weighing
pub mod Total
pub mod Tested
pub mod NeutralLaws
pub mod Negated
