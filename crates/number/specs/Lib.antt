-- What the contracts cite, worked values of it, and what a reader may hold the root and the narrowing against. Assumes nothing.
pub mod Number
pub mod Shown
pub mod Nearest
