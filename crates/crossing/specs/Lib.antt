-- What the contracts of the crossings and of the exports cite: a record as it crosses the boundary. Assumes nothing.
pub mod Measured
pub mod PortCrossing
pub mod InPlace
pub mod SignalCrossing
pub mod QualityCrossing
pub mod PowerCrossing
pub mod FundamentalCrossing
pub mod FiguresCrossing
pub mod CaptureCrossing
