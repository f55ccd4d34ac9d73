pub mod Turns
pub mod Placed
pub mod Asked
pub mod Tracing
pub mod Promised
pub mod Judging
