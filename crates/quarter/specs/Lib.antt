-- What the contracts cite. Assumes nothing.
pub mod Table
pub mod Wave
pub mod Turn
