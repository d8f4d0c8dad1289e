-- What the contracts of the roundings cite beside the definitions of `integers`.
pub mod Half
pub mod Roundable
