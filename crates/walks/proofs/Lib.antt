pub mod Following
pub mod Meaning
