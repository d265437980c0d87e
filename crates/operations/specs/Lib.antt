pub mod Operators
pub mod Functions
pub mod Laws
