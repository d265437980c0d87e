pub mod NameBytes
pub mod KeyOrder
pub mod KeyMeans
