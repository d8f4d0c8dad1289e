-- Laws that belong to no one function.
pub mod Rolling
pub mod Units
