pub mod Example
pub mod Listed
pub mod Input
pub mod Short
