pub mod Back
pub mod Reading
