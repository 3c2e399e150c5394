-- What the contracts of `figures` cite, and what follows from it. Assumes nothing.
pub mod Levels
pub mod Duty
pub mod Edges
pub mod Ratios
pub mod Figures
pub mod Counted
pub mod Shown
