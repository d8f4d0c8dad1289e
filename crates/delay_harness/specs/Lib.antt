-- What the contract of the C function cites.
pub mod Codes
