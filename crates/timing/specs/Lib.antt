-- What the contracts of `timing` cite, and 01's examples of it. Assumes nothing.
pub mod Timing
pub mod Shown
pub mod Steps
