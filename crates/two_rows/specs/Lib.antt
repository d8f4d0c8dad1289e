-- What the contract of the caller cites.
pub mod TwoRows
