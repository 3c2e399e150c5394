-- What the theorem speaks of. Assumes nothing.
pub mod Codes
