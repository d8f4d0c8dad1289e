-- What it means that a 64-bit floating-point number is a fraction, or nearest to one.
pub mod Fractions
