-- Laws of bytes in a buffer, of the count of digits and of the fields of a line, for whoever puts fields one after the other.
pub mod Buffers
pub mod Places
pub mod Digits
pub mod Fields
pub mod Signs
