-- What the generator's contracts cite. Assumes nothing.
pub mod Wave
pub mod Sample
pub mod Units
