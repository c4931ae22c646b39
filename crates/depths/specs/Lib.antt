pub mod Depths
pub mod Steps
