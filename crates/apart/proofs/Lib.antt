pub mod Pairs
pub mod Found
