pub mod Exchange
pub mod Made
pub mod Turned
