mod Faults
mod Grammars
mod Headers
mod Rasters
mod Readings
mod Writings
