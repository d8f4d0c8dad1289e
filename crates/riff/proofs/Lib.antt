-- The laws from which the functions of `riff` are proved.
pub mod Names
pub mod Places
pub mod Walking
pub mod Finding
