-- The structs of `riff`, read as what `wavefile` defines.
pub mod Places
