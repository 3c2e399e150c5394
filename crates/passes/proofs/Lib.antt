-- Laws of this crate. Assumes nothing.
pub mod Folded
