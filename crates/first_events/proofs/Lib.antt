pub mod Told
pub mod Turns
pub mod Sweeps
pub mod Cells
pub mod Ends
pub mod OneRound
pub mod Whole
