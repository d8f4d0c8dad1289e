-- Laws that belong to no one function.
pub mod Cubics
pub mod CubicSum
pub mod Factors
pub mod SmallSums
pub mod Tables
