-- Laws that belong to no one function.
pub mod RowValues
pub mod Parts
