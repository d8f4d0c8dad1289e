-- Laws of the integers, for proofs: from the parts of a number up to linear arithmetic and polynomial identities in one line,
-- then absolute values, division and rounding, and what the machine does with signed numbers. Before them stand laws of a test and of powers of two.
-- docs/INTEGERS.md says how they are used; Examples shows it. Assumes nothing.
pub mod Choices
pub mod Powers
pub mod Parts
pub mod Linear
pub mod Laws
pub mod Polynomials
pub mod Ring
pub mod Absolute
pub mod Division
pub mod Rounding
pub mod Rounded
pub mod Machine
pub mod Words
pub mod Signs
pub mod Examples
