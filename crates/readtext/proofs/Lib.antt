-- The laws from which the functions of `readtext` are proved.
pub mod Digits
pub mod Lines
pub mod Places
pub mod Texts
