-- Where a click starts.
pub mod Runs
pub mod Measures
pub mod Outcomes
pub mod Answers
