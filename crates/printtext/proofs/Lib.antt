-- The laws from which the functions of `printtext` are proved, and those of the parts for the theorems of `rowtext`.
pub mod ValueLines
pub mod PartLines
pub mod Printing
pub mod LineFields
pub mod DoneLines
