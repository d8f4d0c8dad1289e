-- What belongs to more than one function, and the laws of numbers behind `round_even`.
pub mod Lifted
pub mod Narrow
pub mod Nearest
