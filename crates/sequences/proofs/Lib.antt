-- What a sequence tells of how its calls ended, and of how many samples there are. Assumes nothing.
pub mod Lengths
pub mod Endings
