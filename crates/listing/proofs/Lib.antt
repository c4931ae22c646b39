pub mod Example
pub mod Short
