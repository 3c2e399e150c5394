-- Laws that the proofs of `counts` cite, and its claims. Assumes nothing.
pub mod Words
pub mod Places
pub mod Finite
pub mod BrownOut
