-- The laws from which the functions of `judgetext` are proved, and the bounds of sizes that a text can have.
pub mod RowSizes
pub mod Judging
pub mod TextOutcome
