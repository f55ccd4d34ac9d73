pub mod Words
pub mod Spans
pub mod Texts
pub mod Outcomes
