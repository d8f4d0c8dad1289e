-- The laws from which the functions of `wav` are proved.
pub mod Signs
pub mod Lending
