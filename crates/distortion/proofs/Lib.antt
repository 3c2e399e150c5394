-- Laws that the proofs cite. Assumes nothing.
pub mod Orders
pub mod ByEdition
mod Whole
pub mod NotNumbers
pub mod Infinite
