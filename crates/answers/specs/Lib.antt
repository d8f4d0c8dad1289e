-- What the contracts of the operations cite beside the definitions of `bspline`.
pub mod Answers
pub mod Limits
pub mod Positions
