-- What the theorems about one sample's reach say, in the order of the specification.
pub mod Reach
