pub mod FirstEvents
pub mod Passes
pub mod Rounds
