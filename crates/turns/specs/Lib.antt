-- Stations that take turns.
pub mod States
pub mod Outcomes
pub mod Events
pub mod Answers
