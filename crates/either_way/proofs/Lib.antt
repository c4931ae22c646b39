pub mod Pairs
pub mod Choice
