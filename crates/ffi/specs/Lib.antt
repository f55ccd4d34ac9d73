pub mod Scans
pub mod Told
pub mod Files
