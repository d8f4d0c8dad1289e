-- The delay between two hydrophones.
pub mod Outcomes
pub mod Answers
