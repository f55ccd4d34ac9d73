mod Places
mod Kept
mod Bins
mod Levels
mod Faults
mod Entries
mod Faultless
mod Writing
mod Pairs
mod Meaning
mod Back
pub mod There
