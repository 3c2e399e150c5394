-- The laws that the functions' proofs cite, and worked examples. Assumes nothing.
pub mod Grid
pub mod Angle
pub mod Turns
pub mod Unusual
pub mod Ends
pub mod SameFigures
pub mod Examples
pub mod Shown
pub mod Running
