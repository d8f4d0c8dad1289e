-- What the contracts of sums along columns cite beside the definitions of `bspline`.
pub mod Columns
pub mod Bands
