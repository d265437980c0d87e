pub mod Divisions
pub mod Elements
pub mod Guards
pub mod Ranges
pub mod Readings
pub mod Sequences
