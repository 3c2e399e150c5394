-- Laws that the proofs of `figures` cite, and its claims. Assumes nothing.
pub mod Bounds
pub mod NanSums
pub mod Flags
pub mod Rectified
pub mod Whole
pub mod Counted
pub mod Unusual
