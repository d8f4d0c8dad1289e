-- Theorems about turns, and the laws from which the functions are proved.
pub mod GoingRound
pub mod Cases
pub mod Changes
pub mod Naming
pub mod Reached
pub mod Waits
pub mod Served
pub mod Worked
