pub mod Xorshift
pub mod Back
