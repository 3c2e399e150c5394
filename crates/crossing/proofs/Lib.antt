-- Laws of what crosses the boundary. Assumes nothing.
pub mod PortCrossing
pub mod InPlace
pub mod SignalCrossing
