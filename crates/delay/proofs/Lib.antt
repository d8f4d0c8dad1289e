-- Theorems about delays, and the laws of differences from which they follow.
pub mod Differences
pub mod Opposites
pub mod ExactDifferences
pub mod Searches
pub mod Factors
pub mod Measured
pub mod Delays
pub mod Worked
