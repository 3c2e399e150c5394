-- What is claimed of the figures of whole codes. Assumes nothing.
pub mod Exact
pub mod Claims
pub mod Lost
