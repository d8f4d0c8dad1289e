-- What belongs to more than one function.
pub mod Coded
