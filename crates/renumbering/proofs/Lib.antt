pub mod Lines
pub mod Meeting
pub mod Lining
pub mod Writing
pub mod Left
