-- What the contracts of `counts` cite, and what is claimed of it. Assumes nothing.
pub mod Counts
pub mod Claims
pub mod Shown
