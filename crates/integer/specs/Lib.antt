pub mod Within
pub mod Nearest
pub mod Root
pub mod Sum
