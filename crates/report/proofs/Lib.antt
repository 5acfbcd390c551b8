-- A block's sets, one after the other; the steps one after the other.
mod Going
mod Whole
