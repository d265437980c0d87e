pub mod Programs
pub mod Rooms
pub mod Runs
