-- What the port's contracts cite. Assumes nothing.
pub mod Fields
pub mod Readings
