-- The laws that the functions' proofs cite.
pub mod NotNumbers
pub mod BlockSums
pub mod Refusals
pub mod Infinite
pub mod OneInfinity
pub mod Incident
