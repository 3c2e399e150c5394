-- What the contracts of `samples` cite. Assumes nothing.
pub mod Samples
