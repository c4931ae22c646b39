pub mod Runs
pub mod Nearness
