-- Laws that belong to no one function.
pub mod Scatter
pub mod Recursions
pub mod LineLoop
