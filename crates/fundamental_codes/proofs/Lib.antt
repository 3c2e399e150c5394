-- The proofs of what specs/Claims.antt claims.
pub mod Sines
pub mod Sums
pub mod Along
pub mod Clear
pub mod Scaled
pub mod Figures
pub mod Beyond
pub mod Proved
