-- What is claimed of power's figures. Assumes nothing.
pub mod Accuracy
pub mod Tight
