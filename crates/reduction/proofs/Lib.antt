pub mod Worked
pub mod Outcome
pub mod Promised
pub mod Fakes
