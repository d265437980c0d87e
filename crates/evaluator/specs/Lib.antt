pub mod Held
pub mod Prints
pub mod Turns
pub mod Runs
pub mod Blocks
