-- The table's rules, and the laws that the functions' proofs cite. Assumes nothing.
pub mod Rules
pub mod Fraction
pub mod Halves
