-- Which text is legal and which numbers it means, where a byte first stands in it, and the answers of `readtext` read as that.
pub mod Numbers
pub mod Places
pub mod Readings
