-- What the contracts of the filter cite beside the definitions of `bspline`.
pub mod Lines
