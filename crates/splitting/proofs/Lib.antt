pub mod Frames
pub mod Counts
pub mod Splitting
