-- What the contracts of whole buffers cite beside the definitions of `bspline`.
pub mod Raised
