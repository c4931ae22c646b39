pub mod Meaning
pub mod Promised
