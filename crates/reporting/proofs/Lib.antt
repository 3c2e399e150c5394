pub mod Decimal
pub mod Stored
pub mod Texts
pub mod Whole
