pub mod Walk
pub mod Judging
