-- What the contracts of cubics cite beside the definitions of `bspline`.
pub mod Cubics
pub mod Quotients
pub mod Weighted
