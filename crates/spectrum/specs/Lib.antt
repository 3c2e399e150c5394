-- What the contracts cite. Assumes nothing.
pub mod Grid
pub mod Bin
pub mod Spectrum
pub mod Sines
pub mod Running
