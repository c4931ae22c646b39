pub mod Levels
pub mod Sweep
pub mod Cells
