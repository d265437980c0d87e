pub mod Listed
pub mod WordBytes
pub mod Same
