pub mod Words
pub mod Rules
pub mod Machine
pub mod Grammar
pub mod Laws
