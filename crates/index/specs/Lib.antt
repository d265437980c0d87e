pub mod IndexMeans
