pub mod Orders
pub mod Verdicts
