-- Laws of three bits and their number.
pub mod MaskLaws
