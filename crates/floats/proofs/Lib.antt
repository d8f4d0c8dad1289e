-- Laws of casts and quotients: which are exact, and that a quotient is the nearest number to the fraction.
pub mod Quotients
pub mod Nearest
