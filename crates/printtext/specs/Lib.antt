-- The bytes that rowzoom prints, what is printed of a part, and what the functions that put lines are asked.
pub mod Output
pub mod Lines
pub mod Printing
