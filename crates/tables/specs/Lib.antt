pub mod Table
pub mod Bins
pub mod Meaning
pub mod Rows
