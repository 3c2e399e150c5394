-- What the contracts cite, what is claimed of it, and examples of it. Assumes nothing.
pub mod Thd
pub mod Editions
pub mod Claims
pub mod Shown
