-- Laws that belong to no one function.
pub mod Raising
pub mod PictureRows
