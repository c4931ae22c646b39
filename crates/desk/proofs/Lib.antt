pub mod Example
pub mod Sized
pub mod Input
pub mod Short
