-- 01's starred examples. Assumes nothing.
pub mod Starred
