pub mod Cells
pub mod Filling
pub mod Drawings
