-- The laws of the three sections, of a quiet system, of slopes that do not fall, and of a system with R at most D.
mod Sections
pub mod Bound
pub mod SlopeLaws
pub mod OneEndLaws
pub mod OneEnd
