-- Laws of the generator's definitions. Assumes nothing.
pub mod Kept
pub mod Whole
mod Units
mod Remains
