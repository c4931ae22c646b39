pub mod Xor
pub mod Steps
pub mod States
pub mod Cases
