-- What the contracts of `power` cite, and examples of it. Assumes nothing.
pub mod Power
pub mod Blocks
pub mod Shown
