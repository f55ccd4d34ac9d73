pub mod Divisions
pub mod Tables
pub mod Figures
pub mod Theorems
pub mod Samples
pub mod Recurrence
