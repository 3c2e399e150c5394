-- What the contract of `codes` cites. Assumes nothing.
pub mod Codes
