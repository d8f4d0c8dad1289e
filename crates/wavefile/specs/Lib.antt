-- What a WAVE file is and which clip is in it, in the order of the specification.
pub mod Bytes
pub mod Chunks
pub mod Formats
pub mod Samples
pub mod Outcomes
pub mod Writing
