-- Laws of lists that are looked through or moved along, of the window after a set, of counters and latches, and of sets in a row.
pub mod Scans
pub mod Moves
pub mod Placed
pub mod Elements
pub mod RowLaws
