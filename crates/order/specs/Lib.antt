pub mod Orders
pub mod Names
pub mod Made
pub mod Tables
