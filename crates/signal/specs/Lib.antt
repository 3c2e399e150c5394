-- What the contracts cite, and what is claimed of calls in a row. Assumes nothing.
pub mod State
pub mod Calls
pub mod Sequence
pub mod Editions
pub mod InEdition
pub mod Counted
