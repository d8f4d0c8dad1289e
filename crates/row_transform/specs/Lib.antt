-- What the contracts of the row transform cite beside the definitions of `bspline`.
pub mod Rows
