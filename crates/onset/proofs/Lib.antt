-- Theorems about onsets, and the laws from which the functions are proved.
pub mod FirstRuns
pub mod Scans
pub mod GreatestValues
pub mod Onsets
pub mod Worked
