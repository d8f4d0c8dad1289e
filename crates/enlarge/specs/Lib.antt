-- What the contracts of enlarging cite beside the definitions of `bspline`.
pub mod Rows
