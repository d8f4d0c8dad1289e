-- What the contracts cite beside the definitions of `bspline`.
pub mod Places
