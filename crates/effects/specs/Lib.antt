pub mod Effects
pub mod Laws
