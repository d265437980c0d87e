pub mod FreeRows
pub mod SheetMeans
