-- What the contracts of row zoom cite beside the definitions of `bspline`.
pub mod Listing
