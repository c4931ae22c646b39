pub mod Losses
pub mod Input
pub mod Short
pub mod Example
