-- What the library computes, in the order of docs/SPECIFICATION.md. The contracts of the operations cite these definitions.
pub mod Lists
pub mod PictureLayout
pub mod Bounds
pub mod Mirror
pub mod Exact
pub mod Recursions
pub mod Transforms
pub mod Values
pub mod Limits
pub mod Refusals
pub mod Outcomes
pub mod OffData
pub mod Negation
pub mod Examples
