-- What the contracts cite. Assumes nothing.
pub mod Digit
pub mod Code
