pub mod Grammar
pub mod Pgm
pub mod Raster
