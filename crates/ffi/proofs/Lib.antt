mod Counting
mod Filling
mod RowWrites
mod Telling
mod Putting
