pub mod Distances
pub mod Search
