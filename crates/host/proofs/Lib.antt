-- The sets of a block, one after the other.
mod Windows
mod Sets
