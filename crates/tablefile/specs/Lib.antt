pub mod Numbers
pub mod Bytes
pub mod Fields
pub mod Faults
pub mod Rows
pub mod Parts
pub mod Promises
pub mod Theorems
