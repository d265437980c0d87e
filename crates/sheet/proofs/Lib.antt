pub mod Changes
pub mod Finding
