-- What the contracts of the caller cite.
pub mod Asked
pub mod Returns
