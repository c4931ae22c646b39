pub mod Short
pub mod Example
