-- Numbers as decimal text, and where it stands in a buffer.
pub mod Buffers
pub mod Decimal
