-- Laws of the four ends' sums and trips, by themselves and for the theorems over lists of calls.
pub mod BackupLaws
pub mod EndLaws
pub mod Negated
