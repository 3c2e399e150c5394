-- What the contracts cite. Assumes nothing.
pub mod Text
pub mod Writing
