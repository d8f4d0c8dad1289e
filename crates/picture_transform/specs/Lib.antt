-- What the contracts of the picture transform cite beside the definitions of `bspline`.
pub mod Pictures
