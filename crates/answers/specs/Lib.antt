-- What the contracts of every crate cite. Assumes nothing.
pub mod Numbers
pub mod Left
pub mod Answers
