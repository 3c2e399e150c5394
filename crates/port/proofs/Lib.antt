-- Laws of the port's definitions. Assumes nothing.
pub mod Fields
