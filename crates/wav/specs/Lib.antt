-- The answer of `wav`, read as what `wavefile` defines.
pub mod Answers
