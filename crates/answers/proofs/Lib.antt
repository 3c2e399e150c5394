-- Laws over the definitions of `answers`. Assumes nothing.
pub mod Ended
