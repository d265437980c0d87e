mod Examples
pub mod Moves
pub mod Nested
pub mod Ordered
pub mod Dues
pub mod Upto
pub mod Said
pub mod Inside
pub mod Sound
pub mod Complete
pub mod Whole
pub mod Refused
pub mod Exactness
pub mod Arrivals
pub mod Closed
