-- The proof of what specs/Accuracy.antt claims.
pub mod Exact
pub mod Cauchy
pub mod Mean
pub mod Figures
pub mod Factor
pub mod Difference
pub mod Linear
pub mod Sentences
pub mod Accurate
