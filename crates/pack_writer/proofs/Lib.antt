pub mod Writing
pub mod Theorems
