-- Laws over the definitions of `fundamental`. Assumes nothing.
pub mod Ends
pub mod Swapping
pub mod Incident
