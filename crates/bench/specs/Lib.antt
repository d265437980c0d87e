pub mod Tries
pub mod Reports
