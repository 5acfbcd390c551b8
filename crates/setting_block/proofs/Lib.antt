-- Laws of the zero bytes and of the table's rows, and the cases of the calls, for the proofs of this crate.
mod SpareLaws
mod ReaderCases
mod WriterCases
mod LayoutLaws
pub mod RoundTrip
