-- What the contracts of `quality` cite. Assumes nothing.
pub mod Powers
pub mod Quality
pub mod Judged
pub mod Kinds
pub mod Shown
