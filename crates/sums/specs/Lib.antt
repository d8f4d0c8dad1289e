-- What the contracts of weighted sums cite beside the definitions of `bspline`.
pub mod Sums
