-- What a held signal keeps through calls in a row. Assumes nothing.
pub mod Sequence
pub mod Kept
