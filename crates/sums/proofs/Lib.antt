-- Laws that belong to no one function.
pub mod Divisors
pub mod PictureSums
pub mod Sixteenths
pub mod Supports
