-- What the contracts cite. Assumes nothing.
pub mod Put
pub mod Text
pub mod Report
