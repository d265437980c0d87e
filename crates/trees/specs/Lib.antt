pub mod Tree
pub mod Flat
pub mod Counts
pub mod Laid
pub mod Laws
