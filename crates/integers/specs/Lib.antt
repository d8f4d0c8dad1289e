-- Definitions over the integers that contracts and lemmas cite: what a bound, division rounded down and rounding to the nearest
-- mean. They compute, and say nothing of machine words. Their laws are in proofs/; docs/INTEGERS.md says how they are used.
-- Assumes nothing.
pub mod Bound
pub mod Division
pub mod Rounding
