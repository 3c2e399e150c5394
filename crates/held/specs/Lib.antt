-- What the contracts cite, and what is claimed of it. Assumes nothing.
pub mod Held
pub mod Kept
