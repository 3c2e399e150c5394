-- Laws that the proofs cite, and what is claimed. Assumes nothing.
mod Whole
pub mod Ends
pub mod Sequence
pub mod InEdition
pub mod SameEditions
pub mod Counted
pub mod SequencePort
pub mod Shown
