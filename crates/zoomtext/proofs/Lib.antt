-- The laws from which the functions of `zoomtext` are proved.
pub mod SamplesOutcome
pub mod NumbersOutcome
