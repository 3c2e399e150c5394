-- What the laws speak of. Assumes nothing.
pub mod Whole
pub mod Walks
pub mod Samples
pub mod HowMany
pub mod Filled
pub mod Front
pub mod Literals
pub mod Quotients
pub mod Harmonics
pub mod Products
