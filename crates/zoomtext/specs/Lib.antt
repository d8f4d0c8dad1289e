-- The values of a text in a buffer.
pub mod Kept
