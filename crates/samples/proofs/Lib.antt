pub mod Adding
pub mod Blocks
