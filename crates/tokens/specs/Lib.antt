pub mod Bytes
pub mod Operators
