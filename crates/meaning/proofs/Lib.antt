pub mod Lawfulness
pub mod Tests
pub mod Worked
