pub mod Ledgers
pub mod Outputs
mod Replays
pub mod Rows
mod Shortage
mod Steps
