-- How far one sample reaches. Numbers whose 1-4-1 sums are 0 but at one place fall off by half from place to place; so do the exact solutions and the
-- splines of two rows that differ at one sample, and what operations deliver of them, up to rounding.
pub mod Places
pub mod Halving
pub mod Solutions
pub mod BetweenSamples
pub mod Splines
pub mod Delivered
pub mod Operations
pub mod Marks
pub mod Worked
