-- What is known of a factor, a picture or a position that is not refused.
pub mod WithinLimits
pub mod Inside
pub mod Passed
