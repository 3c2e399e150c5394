-- What the contract of `fundamental` cites, what is claimed of it, and examples. Assumes nothing.
pub mod Fundamental
pub mod Swap
pub mod Shown
