pub mod Ledger
pub mod Meaning
pub mod Short
pub mod Runs
pub mod Extremes
pub mod Outputs
pub mod Sound
