pub mod Constants
pub mod Meaning
pub mod Lawful
pub mod Slips
pub mod Laws
