-- What a text gives, and the answers of `judgetext` read as that.
pub mod Limits
pub mod Outcomes
pub mod Answers
