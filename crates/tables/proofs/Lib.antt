pub mod Bins
pub mod Rows
